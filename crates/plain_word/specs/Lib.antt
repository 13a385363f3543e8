pub mod Jumps
pub mod Theorems
