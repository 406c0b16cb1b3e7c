pub mod Outcomes
pub mod Memory
pub mod Watching
pub mod Labelled
pub mod Kinds
