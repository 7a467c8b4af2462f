pub mod Fields
pub mod Rows
pub mod Changes
pub mod Entered
pub mod Left
