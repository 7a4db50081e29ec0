pub mod Reading
pub mod Bodies
pub mod Pairs
pub mod Characters
