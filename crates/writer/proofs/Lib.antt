pub mod Laws
pub mod Agree
pub mod Fewest
pub mod Unique
pub mod ExactlyWhen
pub mod Answers
