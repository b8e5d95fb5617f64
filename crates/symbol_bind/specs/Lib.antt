pub mod AddressSets
pub mod Open
pub mod Offers
pub mod Bound
