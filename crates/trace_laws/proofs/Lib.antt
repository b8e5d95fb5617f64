mod Common
mod SeenEvents
mod Cuts
pub mod Agreeing
