pub mod Scanned
pub mod Numerals
pub mod Ends
pub mod Parted
pub mod Named
pub mod Shown
pub mod Judged
pub mod Follow
