mod Accepted
mod Admitted
mod OpeningSteps
mod SealingSteps
mod SideSteps
mod Sources
mod Standing
pub mod TagLengths
