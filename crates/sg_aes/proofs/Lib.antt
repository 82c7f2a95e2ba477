mod Octets
mod LaneLemmas
mod PairLemmas
mod KeyLemmas
mod BoxLemmas
mod PlaneLemmas
mod SwapLemmas
pub mod CipherLemmas
