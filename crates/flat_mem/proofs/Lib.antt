pub mod Regions
pub mod Kept
pub mod Loops
pub mod ImageLaw
