pub mod Engines
pub mod Outcomes
