pub mod Steps
pub mod Gathers
pub mod Walks
pub mod ExactlyWhen
pub mod Letters
pub mod Marks
pub mod Answers
