pub mod Digits
pub mod Feeds
