pub mod Host
pub mod Boundary
pub mod Demands
