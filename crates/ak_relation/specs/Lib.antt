pub mod State
pub mod Bytes
pub mod Program
pub mod Relation
pub mod Premises
