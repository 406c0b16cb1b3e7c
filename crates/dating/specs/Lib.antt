pub mod Dated
pub mod Labels
pub mod Laws
