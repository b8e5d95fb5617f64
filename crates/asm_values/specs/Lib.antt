pub mod Operands
pub mod Files
pub mod Accesses
pub mod Actions
pub mod WordLaw
