pub mod Number
pub mod Answer
pub mod Unreadable
