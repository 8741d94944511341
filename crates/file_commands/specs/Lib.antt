pub mod Errors
pub mod Changes
pub mod Copies
