pub mod Bound
pub mod Joined
pub mod Laws
pub mod Passes
pub mod Accounts
pub mod Meetings
