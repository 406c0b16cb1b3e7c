pub mod Asking
pub mod Rows
