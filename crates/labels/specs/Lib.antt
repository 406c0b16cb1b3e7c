pub mod Readings
pub mod Dated
