pub mod Gaps
pub mod Held
pub mod Numbers
pub mod ExactlyWhen
pub mod Alike
pub mod Unique
pub mod Told
pub mod Tables
