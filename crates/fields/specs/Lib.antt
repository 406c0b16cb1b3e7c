pub mod Lines
pub mod Fields
pub mod Kinds
pub mod Runs
pub mod Rest
pub mod Reads
pub mod Readers
