pub mod Stores
pub mod Stops
pub mod Conclusions
pub mod Limits
pub mod Decided
