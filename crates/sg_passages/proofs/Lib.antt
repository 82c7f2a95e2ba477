mod Headlines
pub mod Lifting
pub mod Plainly
mod Texts
