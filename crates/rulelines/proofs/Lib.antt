pub mod Showing
pub mod Single
