pub mod AsmRuns
pub mod FlatRuns
pub mod Worlds
pub mod Shown
pub mod Fits
pub mod Relation
pub mod Leads
pub mod Faithful
