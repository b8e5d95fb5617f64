pub mod Spellings
pub mod Trees
pub mod InstructionTree
pub mod UnitTree
pub mod Types
pub mod Written
