pub mod Keeping
pub mod Bits
pub mod Comparing
