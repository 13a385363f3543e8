pub mod Rules
pub mod Messages
pub mod Calls
pub mod Reckoning
pub mod ListTheorem
pub mod Performing
