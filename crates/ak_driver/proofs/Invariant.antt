-- The invariant of an honest run: what holds at each of its moments, and what each turn and each move comes to.
pub mod PageStates
pub mod Untouched
pub mod PagesStand
pub mod Spots
pub mod HonestMoments
pub mod TurnsLead
pub mod ServingMoves
