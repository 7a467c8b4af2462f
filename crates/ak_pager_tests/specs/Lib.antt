pub mod TestPages
pub mod DefinedSteps
