pub mod Promises
pub mod On
pub mod Told
