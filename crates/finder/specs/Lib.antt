pub mod Listing
pub mod Messages
