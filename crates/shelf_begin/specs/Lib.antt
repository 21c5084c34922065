pub mod Begin
pub mod On
pub mod Answer
