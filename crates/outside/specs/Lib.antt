pub mod Faults
pub mod Store
pub mod Sink
pub mod MemStore
pub mod MemSink
