pub mod Values
pub mod Reading
pub mod Inputs
pub mod Conclusions
pub mod Endings
pub mod Exact
pub mod RunConclusions
