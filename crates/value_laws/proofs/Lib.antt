pub mod Both
pub mod Halves
pub mod Lookups
pub mod ValueLaws
pub mod Comparisons
pub mod OpLaws
