pub mod Clock
pub mod Lists
pub mod Schedules
