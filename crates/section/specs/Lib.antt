pub mod Section
pub mod Answer
pub mod Theorems
