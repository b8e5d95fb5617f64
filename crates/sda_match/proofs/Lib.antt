pub mod Anywhere
pub mod Elements
