pub mod Turns
pub mod Kept
pub mod Fetches
pub mod Accessed
pub mod Plain
pub mod Carried
