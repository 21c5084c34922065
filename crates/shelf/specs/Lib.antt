pub mod Record
pub mod Layout
pub mod Calls
