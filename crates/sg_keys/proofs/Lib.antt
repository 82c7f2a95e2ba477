mod Choosing
mod Indexing
mod MkiTests
mod Octets
mod Reusing
pub mod Sets
pub mod Spending
