pub mod Keeps
pub mod Falls
pub mod Steps
pub mod Onces
