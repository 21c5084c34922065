pub mod Numbers
pub mod History
pub mod Laws
