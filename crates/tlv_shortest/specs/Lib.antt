pub mod Items
pub mod Shortest
pub mod Levels
