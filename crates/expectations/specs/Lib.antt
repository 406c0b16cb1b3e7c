pub mod Expectations
pub mod Words
pub mod Story
pub mod Laws
pub mod Told
pub mod Counted
