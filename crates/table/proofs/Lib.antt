pub mod Fitting
pub mod Orders
