pub mod Rule
pub mod Numbers
