pub mod Reading
mod Matching
