mod Latest
mod Lines
pub mod Loops
mod Marks
mod Sharings
mod Told
mod Vias
