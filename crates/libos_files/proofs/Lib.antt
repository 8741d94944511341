pub mod Closings
pub mod Placed
