pub mod Slots
pub mod ForGood
pub mod Instances
