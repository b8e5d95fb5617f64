pub mod Fitting
pub mod Callable
pub mod Framing
pub mod Reading
pub mod Filling
pub mod Holding
pub mod Quiet
