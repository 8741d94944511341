pub mod Escape
pub mod Names
