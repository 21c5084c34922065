pub mod Narrow
pub mod Lent
