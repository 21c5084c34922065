pub mod Gathers
pub mod Tables
pub mod Truth
pub mod Types
pub mod Exits
pub mod Told
