pub mod Running
pub mod Instructing
pub mod Stepping
pub mod WholeRuns
