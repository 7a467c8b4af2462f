pub mod Translations
pub mod Fills
