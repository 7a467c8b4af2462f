pub mod Blocks
pub mod Absorbed
pub mod Document
pub mod Signers
pub mod Stages
pub mod Collected
pub mod Secinfo
