pub mod Tests
pub mod Right
pub mod Endless
