pub mod Keys
pub mod Given
