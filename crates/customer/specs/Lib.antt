pub mod Alarms
pub mod Following
pub mod Deciding
pub mod Wide
pub mod Labelled
pub mod Slot
pub mod Tried
