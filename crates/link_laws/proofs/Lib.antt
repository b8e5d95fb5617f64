mod Ranges
pub mod Items
mod Addresses
pub mod Overlaps
mod Sizes
mod Apartness
mod Words
mod Functions
mod Variables
mod Covered
mod Loading
mod CodeTests
mod KeyTests
mod Passes
mod Strays
mod First
pub mod Keys
pub mod Names
mod Linked
pub mod Entry
mod Whole
mod Targets
mod Places
mod Fitting
mod Runs
pub mod Proofs
