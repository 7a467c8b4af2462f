-- Lemmas on tracking by steps and stamps.
pub mod TrackBounds
pub mod TrackLines
pub mod TrackedBy
