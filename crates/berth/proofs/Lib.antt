pub mod Laid
pub mod Steps
pub mod Berths
pub mod Unique
pub mod Pieces
