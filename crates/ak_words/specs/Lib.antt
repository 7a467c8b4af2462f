pub mod Asked
pub mod Clap
pub mod Lent
pub mod Scan
