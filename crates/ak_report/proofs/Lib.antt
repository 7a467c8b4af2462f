pub mod Worded
pub mod Readers
pub mod Told
pub mod LinesTold
pub mod Rows
pub mod Pieces
