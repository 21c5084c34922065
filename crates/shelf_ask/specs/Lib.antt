pub mod Ask
pub mod Tables
pub mod Calls
pub mod Answer
