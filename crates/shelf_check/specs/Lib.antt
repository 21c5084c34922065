pub mod Fine
pub mod Unless
