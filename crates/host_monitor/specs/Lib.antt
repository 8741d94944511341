pub mod Edges
pub mod Answers
pub mod Counted
pub mod Monitor
