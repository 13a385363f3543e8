mod SameKind
mod Longer
mod Distances
mod Final
pub mod Greatest
mod Seconds
