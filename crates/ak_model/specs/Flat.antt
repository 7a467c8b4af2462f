-- The program over memory never paged: encodings, instructions, and the flat run.
pub mod Encodings
pub mod Beginnings
pub mod Instructions
pub mod FlatRuns
pub use Encodings.*
pub use Beginnings.*
pub use Instructions.*
pub use FlatRuns.*
