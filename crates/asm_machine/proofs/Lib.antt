pub mod Fitting
pub mod Keys
pub mod Cells
pub mod Stacking
pub mod Stepping
pub mod Starting
pub mod Homes
