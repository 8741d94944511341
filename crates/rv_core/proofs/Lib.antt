mod Examples
pub mod Names
pub mod Read
pub mod Rights
mod Runs
pub mod Signs
pub mod Spelled
