pub mod Rows
pub mod Tells
pub mod Bound
pub mod Props
pub mod Whole
pub mod Jobs
