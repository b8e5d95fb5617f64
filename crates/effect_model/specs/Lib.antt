pub mod Meaning
pub mod Files
pub mod Calls
pub mod Forms
pub mod Rows
