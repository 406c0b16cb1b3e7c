pub mod Traces
pub mod Meanings
