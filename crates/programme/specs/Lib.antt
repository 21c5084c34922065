pub mod Field
pub mod Table
pub mod Run
pub mod Reading
pub mod Answer
pub mod Count
