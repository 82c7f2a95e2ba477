mod AcceptLemmas
pub mod ExchangeLaws
mod KeyLemmas
mod Literals
mod MacLemmas
mod MessageEnds
mod PairLemmas
mod SentLaws
