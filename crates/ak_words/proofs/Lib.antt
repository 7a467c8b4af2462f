pub mod Built
pub mod Finds
pub mod Looks
pub mod SingleReads
pub mod OtherWords
pub mod Outcome
pub mod Uses
mod Rows
pub mod RunFiles
pub mod RunReads
pub mod Stays
pub mod Steps
