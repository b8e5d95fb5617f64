pub mod Values
pub mod Cells
pub mod Slots
pub mod Blocks
pub mod Comparison
pub mod Edits
pub mod Order
