pub mod Finds
pub mod Agrees
pub mod Mappings
