mod Accounts
mod Asks
mod Blames
mod CallPorts
mod Common
pub mod Complete
mod Deeds
mod Gives
mod Held
pub mod Holds
mod JoinedPorts
mod Joins
mod Leaving
mod Order
mod Relays
mod Says
mod Sharing
mod Waits
mod Weavings
