pub mod Gaps
pub mod Spelt
