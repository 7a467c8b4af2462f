-- Where the program is, what it sees, and what stands of its turns.
pub mod FlatPlaces
pub mod FlatFits
pub mod Inputs
pub mod Turns
pub mod Reaching
pub mod Seeing
pub mod FaultedTurns
