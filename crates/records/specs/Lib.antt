pub mod Growth
pub mod Tabled
pub mod Changed
