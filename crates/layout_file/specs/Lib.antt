pub mod Pins
pub mod PinEntries
pub mod RangeTests
pub mod LayoutTree
pub mod LayoutFile
pub mod Causes
pub mod Errors
pub mod Seen
