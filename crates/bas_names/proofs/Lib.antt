pub mod Escapes
mod Examples
pub mod RuleLists
