mod AddedRoutes
pub mod MorePairs
mod Offering
mod OneRoute
mod Onward
pub mod Paired
pub mod Passing
mod Places
mod Renewing
mod Signalled
pub mod Standing
mod Taking
