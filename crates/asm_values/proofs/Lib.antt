pub mod Signed
pub mod WordLaw
