pub mod Steps
pub mod Decisions
pub mod Bits
pub mod Facts
