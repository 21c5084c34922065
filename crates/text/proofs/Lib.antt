pub mod Writing
pub mod Names
pub mod Digits
pub mod Short
pub mod Clean
