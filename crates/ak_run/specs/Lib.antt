pub mod Blaming
pub mod Cuts
pub mod Events
pub mod Runs
pub mod Watching
