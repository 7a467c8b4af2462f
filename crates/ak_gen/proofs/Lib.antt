pub mod Words
pub mod Wholeness
pub mod Places
