pub mod SlotChanges
pub mod Versions
pub mod Soundness
pub mod Discarding
pub mod Leading
pub mod Rows
pub mod Alone
