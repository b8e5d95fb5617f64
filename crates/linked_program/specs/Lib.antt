pub mod Kinds
pub mod Alignments
pub mod Tables
pub mod Linked
pub mod Program
