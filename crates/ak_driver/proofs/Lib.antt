pub mod Invariant
pub mod Noting
pub mod Pages
pub mod Turns
pub mod Serving
pub mod Driving
pub mod Keeping
pub mod Rows
