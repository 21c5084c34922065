pub mod Tells
pub mod Changes
pub mod Asks
