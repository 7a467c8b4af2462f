pub mod Runtime
pub mod Mapping
pub mod Adding
pub mod Built
