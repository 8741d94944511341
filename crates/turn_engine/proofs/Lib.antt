pub mod Carrying
pub mod Halting
pub mod Histories
pub mod Progress
pub mod Telling
pub mod Turning
pub mod Turns
