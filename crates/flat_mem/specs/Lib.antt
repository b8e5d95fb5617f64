pub mod Memory
pub mod Access
pub mod Built
pub mod Faults
