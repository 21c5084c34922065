pub mod Included
pub mod Places
pub mod Puts
pub mod Chains
pub mod Narrows
pub mod Handed
