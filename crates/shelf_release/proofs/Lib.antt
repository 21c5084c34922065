pub mod Steps
pub mod Laws
pub mod On
pub mod Told
