pub mod Indexed
pub mod Installing
pub mod KeySet
pub mod Live
pub mod PreparedKey
pub mod Reused
pub mod Stands
