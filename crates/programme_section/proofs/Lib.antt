pub mod Facts
pub mod Walk
pub mod Short
