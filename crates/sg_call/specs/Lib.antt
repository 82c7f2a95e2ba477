pub mod Adding
pub mod Drained
pub mod Handling
pub mod Onward
pub mod Settling
pub mod Standing
pub mod States
pub mod Values
