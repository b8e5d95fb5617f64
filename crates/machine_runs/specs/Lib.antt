pub mod Sums
pub mod Traces
pub mod Arguments
pub mod Steps
pub mod Outside
