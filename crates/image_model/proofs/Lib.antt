pub mod HeaderFacts
pub mod Rows
pub mod CutLemmas
pub mod Loads
pub mod SegmentFacts
pub mod Holders
pub mod Starts
