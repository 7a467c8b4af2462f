mod Rows
pub mod Comparing
pub mod Splits
pub mod Digits
pub mod Reading
pub mod LineByLine
pub mod Plain
pub mod LinesRead
pub mod PrintedRead
pub mod Limits
