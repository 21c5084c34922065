pub mod Growing
pub mod Digits
pub mod Lines
pub mod Whole
pub mod Short
pub mod Unique
pub mod Answers
