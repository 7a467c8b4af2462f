pub mod Granting
pub mod Spots
pub mod Keeping
