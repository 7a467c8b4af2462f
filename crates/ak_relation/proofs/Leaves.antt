-- Lemmas on the leaf instructions of the kernel and its page table.
pub mod ViewStands
pub mod Fewer
pub mod Refused
pub mod LeafStands
pub mod SomeLeaves
pub mod LeafMoves
pub mod DoneMoves
pub mod WriteOut
pub mod WriteOutMoves
pub mod Loaded
pub mod LoadMoves
pub mod BlockedLoads
pub mod RemoveMoves
pub mod MakeMoves
pub mod DiscardMoves
pub mod LeafDoes
