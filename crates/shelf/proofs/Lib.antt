pub mod Lists
pub mod Find
pub mod Words
pub mod Alike
pub mod Equal
pub mod Numbers
