pub mod Order
pub mod InPage
pub mod Writes
pub mod Labels
pub mod Numbers
pub mod Gaps
pub mod RefusalLaws
pub mod Accesses
pub mod Copies
pub mod Hints
mod Examples
