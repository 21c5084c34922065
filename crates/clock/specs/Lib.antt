pub mod Answered
pub mod Spoiled
pub mod Refusals
pub mod Offer
pub mod Move
pub mod Ask
pub mod Record
pub mod Codes
