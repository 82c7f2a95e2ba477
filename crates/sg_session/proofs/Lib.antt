pub mod CanSeal
mod Fits
pub mod Inversions
pub mod Leaves
pub mod Lists
pub mod Lives
pub mod NoneTwice
pub mod ReadBack
pub mod Taking
pub mod Texts
