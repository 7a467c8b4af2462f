pub mod Splitting
pub mod Refusal
pub mod Line
pub mod Operand
pub mod Script
pub mod Text
pub mod Words
