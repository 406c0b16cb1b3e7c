pub mod Endings
pub mod Ranges
pub mod Progress
pub mod Joined
pub mod Sound
pub mod Unique
