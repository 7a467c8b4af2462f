mod Lists
mod Texts
mod Sizes
mod Digits
mod Each
mod Numbering
mod Largest
mod Chains
pub mod Counts
mod Whole
mod Valid
mod Filling
pub mod Measured
mod Honest
mod Lengths
mod Rows
pub mod Fields
mod CodeFields
pub mod BuiltPages
mod Told
