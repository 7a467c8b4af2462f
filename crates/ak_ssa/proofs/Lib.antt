pub mod RegistersReturn
pub mod FramesReturn
pub mod Room
pub mod Words
pub mod Parts
pub mod Reading
