-- Rows that are computed from the definitions.
pub mod Samples
pub mod Worked
pub mod WorkedFlat
pub mod ValidLayouts
mod BuiltEnclave
pub mod ProgramTurns
mod Tracking
pub mod HonestKernel
pub mod ManyClusters
pub mod ServedMiss
pub mod TakenPage
pub mod KernelsAndEdges
pub mod Encodings
pub mod Flags
pub mod SoundJournals
pub mod EvictingKernels
pub mod FourMisses
mod Walks
mod Answers
mod ControlStates
mod StopCauses
mod HonestKernelEdges
mod MemoryInstructions
mod KernelRules
mod UnsoundJournals
mod Forbidden
mod Layouts
