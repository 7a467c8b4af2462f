-- Lemmas of this room: which accesses were reached, may fault, and are kept; and the misses that a program forces.
pub mod WalksReach
pub mod Unkept
pub mod ReachedIsIn
pub mod FirstOut
pub mod MissesInARow
pub mod IdealMisses
pub mod FewMisses
pub mod SoundMissesFit
pub mod Granted
pub mod EqualAccesses
pub mod KeptBySet
