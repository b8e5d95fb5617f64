pub mod Causes
pub mod Items
pub mod Values
pub mod NameLemmas
pub mod Texts
pub mod NameSets
