mod Differences
pub mod PrfLemmas
pub mod Sizes
