pub mod Adding
pub mod Telling
pub mod Taking
pub mod Walks
pub mod Unique
pub mod Joining
pub mod Longer
pub mod GoingOn
