pub mod Words
pub mod Over
pub mod Clean
