pub mod CaptureReads
pub mod Capturings
pub mod Causes
mod Common
pub mod Ends
pub mod Frames
pub mod Grammars
mod LineParts
pub mod Loops
pub mod PassedOn
mod ReadBuffers
mod Readings
pub mod Runs
mod Supplies
pub mod Traces
pub mod Writings
