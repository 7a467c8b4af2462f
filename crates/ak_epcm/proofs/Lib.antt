pub mod EntryLists
pub mod PageFrames
