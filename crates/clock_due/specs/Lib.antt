pub mod Order
pub mod Keys
