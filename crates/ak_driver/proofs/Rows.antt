-- Cases that are computed from the definitions.
pub mod WorkedRun
pub mod WorkedJournal
