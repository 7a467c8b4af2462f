pub mod SealedPages
pub mod Shown
