mod ChainLaws
mod FieldLaws
mod Loops
mod MessageLaws
mod Orders
mod PayloadLaws
