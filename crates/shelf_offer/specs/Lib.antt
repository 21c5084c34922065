pub mod Offer
pub mod On
pub mod Answer
pub mod Steps
