pub mod Laws
pub mod Sizes
pub mod Steps
pub mod Filing
pub mod Answers
pub mod Unique
pub mod ExactlyWhen
pub mod Told
