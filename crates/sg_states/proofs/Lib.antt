mod Alive
mod Encrypting
pub mod OpeningLaw
mod Placings
pub mod SealingLaw
mod Tags
mod Words
