pub mod Jumps
pub mod Exact
