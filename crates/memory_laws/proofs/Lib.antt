pub mod SegmentLaws
pub mod BlockLaws
pub mod Keep
pub mod MemoryLaws
pub mod AccessLaws
pub mod FrameLaws
