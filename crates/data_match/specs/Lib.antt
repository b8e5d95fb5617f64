pub mod Faults
pub mod Stretches
