pub mod Windows
pub mod Lines
pub mod Reaching
pub mod Paged
pub mod Unwritten
pub mod Products
pub mod Carrying
pub mod Within
