pub mod Lines
pub mod Sums
pub mod Watched
pub mod Laws
pub mod WatchedOn
pub mod Printed
