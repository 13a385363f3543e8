pub mod Calls
pub mod Scripts
pub mod Engines
pub mod Messages
