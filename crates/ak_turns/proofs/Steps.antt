-- Lemmas on steps of the runtime.
pub mod Walking
pub mod WrittenFrames
pub mod StepMachines
pub mod Refusals
pub mod StepShows
pub mod OwnMachine
pub mod RuntimeTurns
pub mod StepTold
pub mod StepKeeps
pub mod Arms
