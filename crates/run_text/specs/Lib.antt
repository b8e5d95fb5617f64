pub mod Agreement
pub mod Texts
