pub mod Fields
pub mod LineFaults
pub mod LineOf
pub mod LineText
pub mod ScriptLines
