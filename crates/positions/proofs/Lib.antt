pub mod Least
pub mod Gathered
pub mod Only
pub mod Unions
pub mod Told
