pub mod Overs
pub mod Gathered
pub mod Rooms
pub mod Labellings
pub mod Dates
pub mod Masks
pub mod Appends
