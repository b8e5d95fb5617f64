pub mod Faults
pub mod Answers
pub mod Lists
pub mod Steps
