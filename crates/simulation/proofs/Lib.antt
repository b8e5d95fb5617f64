pub mod UnitNumbers
pub mod UnitReads
pub mod Refusals
