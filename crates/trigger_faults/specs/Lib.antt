pub mod Kinds
pub mod Fields
pub mod Parts
