pub mod Lists
pub mod Held
pub mod Waiting
pub mod Book
pub mod Words
pub mod Codes
