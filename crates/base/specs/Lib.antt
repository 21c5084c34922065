pub mod Choice
pub mod Below
pub mod Bytes
pub mod Tables
pub mod Octets
pub mod Bits
