pub mod Diffs
