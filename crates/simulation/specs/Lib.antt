pub mod Judged
pub mod Units
