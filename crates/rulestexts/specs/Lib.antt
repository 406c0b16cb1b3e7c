pub mod Blocks
pub mod Sections
pub mod Texts
