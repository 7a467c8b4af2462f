-- What each entering, turn and run comes to.
pub mod EnteringMoves
pub mod QueuesHold
pub mod TurnCases
pub mod AnsweringTurn
pub mod ProgramTurn
pub mod RunsLead
pub mod RunMove
pub mod TurnsHold
pub mod TurnMoments
