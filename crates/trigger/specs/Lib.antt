pub mod Trigger
pub mod Layout
pub mod Answer
pub mod Belongs
pub mod Message
pub mod Places
pub mod Repeats
pub mod Theorems
