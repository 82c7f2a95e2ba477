pub mod Addresses
pub mod Carrying
pub mod Descriptions
pub mod Faults
pub mod LineForm
pub mod Parts
pub mod Reading
