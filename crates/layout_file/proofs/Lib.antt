pub mod Causes
pub mod Meetings
pub mod Parts
pub mod PinItems
pub mod PinSets
pub mod Search
