pub mod Contexts
pub mod RuntimePages
pub mod Rows
pub mod StepsTo
pub mod Remembered
pub mod Effects
