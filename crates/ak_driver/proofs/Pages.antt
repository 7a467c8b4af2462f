-- What each move of the tables does to frames, entries and the states of pages.
pub mod AtBuild
pub mod ChangedStates
pub mod MoveSteps
pub mod MovedPages
pub mod GrantedMoves
pub mod WalkedPages
