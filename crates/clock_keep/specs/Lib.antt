pub mod Keep
pub mod Hold
