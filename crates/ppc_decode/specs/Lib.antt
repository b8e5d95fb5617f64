pub mod Decoding
pub mod Operands
pub mod Text
pub mod Word
