pub mod Narrowed
pub mod Walks
pub mod SetLemmas
pub mod Neighbours
pub mod Kept
pub mod Offered
pub mod Settled
pub mod Bindings
