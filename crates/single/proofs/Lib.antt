pub mod Filling
pub mod Linked
pub mod Stepping
