pub mod Ends
pub mod Reports
pub mod Exactly
pub mod Answers
