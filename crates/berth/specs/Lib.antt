pub mod Berth
pub mod Calls
