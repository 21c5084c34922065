pub mod Writes
pub mod Calls
