pub mod Errors
pub mod Failures
pub mod Faults
pub mod Fetched
pub mod Files
pub mod Streams
