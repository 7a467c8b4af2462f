-- Lemmas of this room: what is asked of a well-behaved kernel, what a kernel can count, and the honest one.
pub mod NoTurnStops
pub mod NoStepStops
pub mod NoStop
pub mod NoForcedBreak
pub mod NoBreakOnTape
