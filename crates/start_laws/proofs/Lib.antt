pub mod Lists
pub mod Blocks
pub mod FirstLaid
pub mod FirstCells
pub mod FirstFiles
pub mod Starts
pub mod StartRows
mod RelatedRows
