pub mod Freshness
pub mod Marks
pub mod Row
pub mod Seen
