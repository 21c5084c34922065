pub mod Stands
pub mod Steps
pub mod ExactlyWhen
pub mod Equal
pub mod On
pub mod Unique
pub mod Told
pub mod Left
