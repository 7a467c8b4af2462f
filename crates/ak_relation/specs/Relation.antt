-- The relation at a moment of a trace, and the steps from one moment to another.
pub mod Stands
pub mod HeldFrames
pub mod Does
pub mod TurnByTurn
pub mod Causes
pub mod MoveByMove
pub mod NamedMoves
pub mod Journals
pub mod StepNotes
pub mod Tells
pub mod Stopping
pub mod Keeping
pub mod Example
pub mod Witnesses
