pub mod Listing
pub mod Inside
pub mod Answer
pub mod Theorems
