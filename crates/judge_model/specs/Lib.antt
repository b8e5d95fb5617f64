pub mod Refused
pub mod Judge
