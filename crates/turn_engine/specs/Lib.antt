pub mod Inside
pub mod Moment
pub mod Serves
pub mod Halts
pub mod Errors
pub mod Ends
pub mod History
