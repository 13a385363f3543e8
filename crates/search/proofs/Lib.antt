pub mod Leftward
pub mod Writing
pub mod Moving
pub mod Running
pub mod Asides
pub mod Making
