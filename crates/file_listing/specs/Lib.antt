pub mod Words
pub mod Listing
pub mod Answer
pub mod Growing
