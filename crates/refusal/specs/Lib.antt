pub mod Refusals
pub mod Messages
