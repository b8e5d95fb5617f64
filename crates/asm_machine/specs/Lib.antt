pub mod Executables
pub mod Variables
pub mod Parts
pub mod Starts
pub mod Stacks
pub mod Cpus
