-- The code of the honest kernel: what it keeps is right, and so are the moves that it gives.
pub mod TableSteps
pub mod CountSteps
pub mod CycleSteps
pub mod RequestSteps
pub mod GivenMoves
pub mod NoteSteps
pub mod AtBuild
pub mod Searches
pub mod TracedMoves
