pub mod LabelLemmas
pub mod ShapeLemmas
pub mod UnitLemmas
pub mod Rows
pub mod PlaceRows
pub mod UnitRows
pub mod SigRows
pub mod NamesLemmas
