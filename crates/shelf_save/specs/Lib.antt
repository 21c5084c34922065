pub mod Save
pub mod Sizes
pub mod Answer
