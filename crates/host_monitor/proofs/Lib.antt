pub mod Pieces
pub mod Contents
pub mod OpenHandles
pub mod FileRows
pub mod Counting
pub mod Rows
