pub mod Gets
pub mod Puts
pub mod Runs
pub mod FirstSome
pub mod Spaces
pub mod Cells
pub mod Bytes
pub mod Filling
pub mod Turns
pub mod RunLaws
pub mod Regions
pub mod RegionChanges
pub mod RegionBytes
mod Examples
