pub mod Chain
pub mod Reading
pub mod Spelling
