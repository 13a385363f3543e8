pub mod Extremes
pub mod Kinds
pub mod Distances
pub mod Theorems
pub mod Found
