pub mod Told
pub mod Messages
