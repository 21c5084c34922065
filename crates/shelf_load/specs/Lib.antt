pub mod Load
pub mod Steps
pub mod On
pub mod Answer
