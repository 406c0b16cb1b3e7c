pub mod Counts
pub mod Operands
pub mod Formulas
pub mod Meanings
pub mod Rules
