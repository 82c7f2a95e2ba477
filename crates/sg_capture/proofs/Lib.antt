mod CaptureLines
mod Common
pub mod Compositions
mod Meets
mod Outputs
mod Readings
mod Scripts
