pub mod LineLists
pub mod NumberLists
pub mod RegisterLists
pub mod TextLists
