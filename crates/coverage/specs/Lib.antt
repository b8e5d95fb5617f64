pub mod Orders
pub mod Stretches
pub mod Kinds
pub mod Tallies
pub mod Sweeps
pub mod Accounts
