pub mod Offers
pub mod Laws
