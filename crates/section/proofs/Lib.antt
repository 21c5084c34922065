pub mod Keys
pub mod ExactlyWhen
pub mod Reserved
pub mod Laws
pub mod Answers
pub mod Faults
