pub mod Going
pub mod Hello
pub mod Pages
pub mod Saying
pub mod Refusing
