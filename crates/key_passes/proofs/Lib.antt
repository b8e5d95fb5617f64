pub mod Walks
pub mod SeenKeys
pub mod Numbers
