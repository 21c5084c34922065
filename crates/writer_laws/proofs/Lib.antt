pub mod Sections
pub mod Undisturbed
pub mod AnyOrder
pub mod Example
pub mod Files
