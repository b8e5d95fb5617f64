pub mod Steps
pub mod PlainSteps
pub mod Targets
pub mod BranchSteps
pub mod WordsSteps
pub mod BitSteps
pub mod TableSteps
pub mod Instructions
