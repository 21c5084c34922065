pub mod Ties
pub mod Back
pub mod OneHistory
pub mod After
