-- Lemmas on entering and resuming.
pub mod EnterFacts
pub mod ResumeFacts
pub mod EnteredPages
pub mod EnteredStands
pub mod ResumedPages
pub mod ResumedStands
pub mod EnterAnswers
pub mod EnterMoves
