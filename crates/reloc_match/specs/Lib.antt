pub mod Gaps
pub mod Diffs
