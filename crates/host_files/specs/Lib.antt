pub mod Users
pub mod Names
pub mod Found
pub mod Rows
pub mod InUse
