pub mod StepLaw
pub mod Runs
