pub mod Numbers
pub mod Runs
pub mod Rows
pub mod Readings
pub mod Items
pub mod Counts
pub mod Within
pub mod Told
