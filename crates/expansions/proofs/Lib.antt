pub mod Reading
pub mod Tables
pub mod Walks
pub mod Places
pub mod Spellings
