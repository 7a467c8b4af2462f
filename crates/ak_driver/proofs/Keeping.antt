-- That the rules of a kernel are kept follows from the invariant.
pub mod KeptMapped
pub mod KeptOut
pub mod KeptFetched
pub mod RulesKept
pub mod LastBreak
pub mod BreakStays
pub mod HonestJournals
