pub mod Answers
pub mod Externals
