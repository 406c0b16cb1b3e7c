pub mod Extract
pub mod Passing
pub mod Walks
pub mod Next
