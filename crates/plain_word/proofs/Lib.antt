pub mod Ends
pub mod Aligned
pub mod Plain
