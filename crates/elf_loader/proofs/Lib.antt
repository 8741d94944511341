pub mod Apart
pub mod Below
mod Examples
pub mod ExtentLists
pub mod ImageLaws
pub mod MemoryBytes
pub mod PageTables
pub mod Refusals
pub mod SegmentBytes
pub mod TouchedPages
