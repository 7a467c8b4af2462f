-- Lemmas on interrupts, and on turns of the program that leave.
pub mod SavedPages
pub mod Interrupted
pub mod InterruptMoves
pub mod TapeGrows
pub mod Departing
pub mod DepartedStands
pub mod Departures
pub mod VectorExits
pub mod WalkedReached
pub mod EventTurns
pub mod ExitTurns
pub mod LeftTables
pub mod HeldFrames
pub mod ToldFaults
