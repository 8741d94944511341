pub mod Pages
pub mod PageBytes
pub mod Refusals
pub mod Hints
