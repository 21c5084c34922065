pub mod Limits
pub mod Activation
pub mod Code
pub mod Places
