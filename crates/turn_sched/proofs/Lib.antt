pub mod Without
pub mod ThreadLists
pub mod Renamed
