pub mod Dense
pub mod FaultLaws
pub mod FieldLaws
mod Joins
mod Lengths
pub mod LineLaws
pub mod Searches
pub mod FrameLaws
pub mod Splits
