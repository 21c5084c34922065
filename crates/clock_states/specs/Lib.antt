pub mod UpTo
pub mod States
