pub mod FrameSteps
