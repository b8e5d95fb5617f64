pub mod Stretches
pub mod Items
pub mod Writable
pub mod Whole
