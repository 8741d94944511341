pub mod Counts
pub mod Followed
pub mod Kept
