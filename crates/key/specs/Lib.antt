pub mod Key
pub mod Theorems
