pub mod Readings
pub mod NewNames
pub mod Tables
pub mod Fits
pub mod OperandCauses
pub mod InitCauses
pub mod BufferCauses
pub mod ReplyCauses
