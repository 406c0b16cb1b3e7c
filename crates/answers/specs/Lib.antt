pub mod Tests
pub mod Answers
pub mod Law
pub mod Lasting
pub mod Refused
pub mod Texts
