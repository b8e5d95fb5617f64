pub mod Parts
pub mod Near
pub mod Addresses
pub mod Tables
pub mod Faults
