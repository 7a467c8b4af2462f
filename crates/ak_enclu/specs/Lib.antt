pub mod TcsBytes
pub mod Processors
pub mod EnterAnswers
pub mod Passing
pub mod Machines
