-- The tape of events, the turns of the program that give them, and where a journal ends.
pub mod Tape
pub mod LastMoment
pub mod ProgramTurns
pub use Tape.*
pub use LastMoment.*
pub use ProgramTurns.*
