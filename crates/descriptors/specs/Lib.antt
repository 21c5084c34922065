pub mod Loop
pub mod Answer
pub mod Walk
pub mod Letter
pub mod Mark
pub mod Theorems
