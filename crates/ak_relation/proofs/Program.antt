-- Lemmas on turns of the program that complete an instruction.
pub mod LongerTurns
pub mod TurnWords
pub mod Seen
pub mod OwnWords
pub mod WalkedFills
pub mod AwayPages
pub mod Completing
pub mod Staying
pub mod Ordinary
pub mod OrdinaryTurns
pub mod ComputedTurns
pub mod ProgramTurns
pub mod CalledTurn
pub mod CalledStands
pub mod CallMoves
