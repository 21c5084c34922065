pub mod Same
pub mod Fills
pub mod Puts
