pub mod OtherSlots
pub mod Discarded
