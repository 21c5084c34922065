pub mod Adding
pub mod Writing
pub mod Listing
pub mod Saving
pub mod ExactlyWhen
pub mod Unique
pub mod Alike
pub mod Told
