pub mod Granted
pub mod Putting
pub mod Cached
