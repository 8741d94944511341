pub mod Space
pub mod First
pub mod Access
pub mod Run
pub mod Running
pub mod Regions
