pub mod Fields
pub mod Image
pub mod Refusal
pub mod Segments
pub mod Steps
