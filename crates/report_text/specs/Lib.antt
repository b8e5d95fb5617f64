pub mod Places
pub mod Reasons
pub mod Reports
pub mod Verdicts
