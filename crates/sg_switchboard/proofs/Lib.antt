pub mod Noted
pub mod Order
