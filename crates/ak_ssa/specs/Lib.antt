pub mod SavedFrames
pub mod SavedRegisters
pub mod ReadFrames
pub mod FramesFit
