pub mod Numbers
pub mod Short
pub mod Whole
pub mod Answers
