pub mod Checks
pub mod Steps
pub mod Answers
pub mod Lists
