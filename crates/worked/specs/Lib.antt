pub mod Examples
pub mod Claims
