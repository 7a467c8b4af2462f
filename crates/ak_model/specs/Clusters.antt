-- The clusters that are in, and which of them leave.
pub mod Queue
pub use Queue.*
