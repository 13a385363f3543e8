pub mod Least
pub mod Alike
pub mod Listed
pub mod Counted
pub mod Onward
pub mod Safe
pub mod Exact
