-- What users cite.
pub mod Bits
