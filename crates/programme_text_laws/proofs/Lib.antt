pub mod Clean
pub mod Ended
pub mod Names
pub mod Read
pub mod Whole
