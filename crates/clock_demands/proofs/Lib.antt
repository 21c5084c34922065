pub mod Boundary
pub mod History
pub mod Demands
