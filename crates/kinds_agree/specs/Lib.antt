pub mod Logs
pub mod Sames
