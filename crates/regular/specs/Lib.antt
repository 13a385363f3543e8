pub mod Language
pub mod Positions
pub mod Numbered
pub mod Matches
pub mod Jumps
pub mod Sets
