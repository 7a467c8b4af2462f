-- The parts of the soundness of a journal, and all of them together.
pub mod Outputs
pub mod Events
pub mod TracedAnswers
pub mod Forced
pub mod ForcedMisses
pub mod BreaksAndStop
pub mod SoundJournal
pub use Outputs.*
pub use Events.*
pub use TracedAnswers.*
pub use Forced.*
pub use ForcedMisses.*
pub use BreaksAndStop.*
pub use SoundJournal.*
