pub mod Telling
pub mod Rows
pub mod Writing
pub mod Reading
pub mod Fetching
