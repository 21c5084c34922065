pub mod Tests
pub mod Cases
pub mod Below
pub mod Same
pub mod Tables
pub mod Bytes
pub mod Bits
