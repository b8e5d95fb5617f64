pub mod Elements
pub mod KindNumbers
pub mod Loads
pub mod Numbers
pub mod WorldFacts
