pub mod Order
pub mod Tables
pub mod Words
