-- The invariant after each move that the honest kernel makes, and what follows for whole runs.
pub mod DrivenMove
pub mod KernelSteps
pub mod AllRuns
pub mod Start
pub mod RunEnds
pub mod AnswersReady
pub mod Pace
