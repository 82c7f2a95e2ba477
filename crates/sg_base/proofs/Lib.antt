pub mod Cases
pub mod Cuts
pub mod Decimals
mod DigitLemmas
pub mod FourNumbers
pub mod Lists
pub mod Pairs
pub mod SameOctets
pub mod SuiteLemmas
