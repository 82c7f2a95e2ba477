pub mod Headline
pub mod Passages
pub mod PutOut
pub mod Told
