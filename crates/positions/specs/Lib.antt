pub mod Members
pub mod Greatest
pub mod Closure
