pub mod Seen
pub mod Joins
