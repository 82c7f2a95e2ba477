pub mod Loops
mod Masters
