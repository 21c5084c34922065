pub mod Walk
pub mod Layout
pub mod Theorems
