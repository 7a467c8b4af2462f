-- Lemmas of this room: the control state, the turns that change it, what each move is answered, and the trace.
pub mod OrderlySteps
pub mod OrderlyTurns
pub mod Stacks
pub mod Unwalkable
pub mod MovedTo
pub mod OrderlyMoves
pub mod OrderlyTrace
pub mod OrderlyMoments
pub mod OneInside
pub mod KernelCounts
pub mod OneInsideTrace
pub mod RunEnds
pub mod MoveCases
pub mod QueueStays
pub mod LeafRows
