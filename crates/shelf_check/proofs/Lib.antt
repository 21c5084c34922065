pub mod Four
pub mod Pass
pub mod Quick
pub mod Whole
pub mod Unless
