pub mod Addresses
pub mod CauseLists
mod Examples
pub mod LabelLists
pub mod Nearest
pub mod OperandLists
pub mod Parts
pub mod Places
pub mod ProgramLists
pub mod Ranges
pub mod Refusals
pub mod Sizes
pub mod StatementLists
pub mod Utf8
pub mod WordLists
