pub mod CaptureLines
pub mod Capturing
pub mod Meeting
