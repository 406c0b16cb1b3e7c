pub mod States
pub mod Logic
pub mod Lawful
pub mod Tests
pub mod Tables
pub mod Laws
