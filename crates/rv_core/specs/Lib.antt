pub mod Memory
pub mod Listing
pub mod Rows
pub mod Machine
pub mod Encoding
pub mod RegisterFile
