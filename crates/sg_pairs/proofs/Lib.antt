mod BothWays
pub mod BridgeFrames
mod Calls
mod Cases
mod Found
mod Inside
mod Joined
mod Known
mod Lasting
mod LostCauses
mod Mates
mod OutcomeLines
mod PutAt
mod Stepped
mod Ties
