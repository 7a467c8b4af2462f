pub mod Found
pub mod Placed
pub mod Counted
pub mod Holding
