pub mod FileLaws
pub mod Sums
pub mod Alikes
pub mod Plains
