pub mod Accepting
pub mod Answers
pub mod Ciphers
pub mod Either
pub mod Sides
pub mod Standing
pub mod Steps
