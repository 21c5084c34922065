pub mod Lists
pub mod Waiting
pub mod Scan
pub mod Back
pub mod Places
