pub mod CryptoSessions
pub mod Policies
