pub mod Writer
pub mod Answer
pub mod Theorems
