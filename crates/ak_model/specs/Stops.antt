-- The move to blame for a stop, and how a stop shows.
pub mod Blame
pub mod MovesBefore
pub mod ShownStop
pub use Blame.*
pub use MovesBefore.*
pub use ShownStop.*
