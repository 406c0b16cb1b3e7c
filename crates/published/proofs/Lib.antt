pub mod Dating
pub mod Refusing
pub mod Labels
