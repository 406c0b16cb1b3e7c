pub mod Told
pub mod Agreeing
pub mod Growing
