mod Batches
pub mod Quiet
pub mod Runs
pub mod Sequences
mod Sharing
mod Wanting
