pub mod Alike
mod Common
pub mod Completes
pub mod Lines
pub mod Plays
pub mod Replays
mod Tells
