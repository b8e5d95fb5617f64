pub mod SeenLists
mod Places
pub mod CodedNames
pub mod NameSets
mod UnitNames
pub mod Pieces
pub mod UsedNames
pub mod Entries
pub mod Declarations
pub mod FirstNames
pub mod FirstsJoin
pub mod ScopedNames
pub mod NumberMaps
pub mod KeyLists
mod Tables
pub mod StandingNames
mod KeySteps
mod SizeSteps
mod SameExternals
