pub mod Release
pub mod On
pub mod Answer
