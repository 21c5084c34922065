pub mod Feeding
pub mod Sizes
pub mod Answer
pub mod Theorems
