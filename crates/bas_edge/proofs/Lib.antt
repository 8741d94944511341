mod Examples
pub mod FilesIn
pub mod Texts
