mod ShownRows
pub mod Longer
