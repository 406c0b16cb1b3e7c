pub mod Says
pub mod Steps
pub mod Ranged
pub mod Reading
