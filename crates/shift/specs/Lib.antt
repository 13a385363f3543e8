pub mod Led
pub mod Excess
pub mod Listed
pub mod Weighed
