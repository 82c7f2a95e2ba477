pub mod DoneLists
pub mod MarkLists
mod RowBits
