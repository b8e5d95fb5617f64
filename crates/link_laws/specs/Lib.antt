pub mod Facts
pub mod Laws
pub mod Operands
pub mod Spans
