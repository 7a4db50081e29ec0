pub mod Steps
pub mod Bounds
pub mod Turns
