pub mod Agreed
pub mod Audit
pub mod Offers
pub mod Pages
pub mod Reached
pub mod Seen
pub mod Stay
pub mod There
