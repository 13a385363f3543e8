pub mod Outlines
pub mod Results
pub mod Messages
