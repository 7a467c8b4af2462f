-- Lemmas on flat runs: modes, words, bytes, and written pages.
pub mod FlatLaws
pub mod Immediates
pub mod WordPlans
pub mod WordRuns
pub mod WrittenPages
pub mod WrittenRuns
