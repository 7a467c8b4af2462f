-- Lemmas on turns of the program.
pub mod Granted
pub mod Walks
pub mod Showing
pub mod Covered
pub mod Machines
pub mod Written
pub mod Completed
pub mod Ended
pub mod Instructed
pub mod Turning
pub mod Keeping
