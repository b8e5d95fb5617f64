pub mod Flat
pub mod Reversed
pub mod Pushing
pub mod Writing
pub mod Counting
pub mod Placing
pub mod Filling
