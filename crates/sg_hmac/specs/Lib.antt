pub mod Hmac
pub mod Labels
pub mod Prf
pub mod States
