pub mod Facts
pub mod Left
pub mod Lent
pub mod Views
pub mod ByAddress
