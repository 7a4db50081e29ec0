pub mod Walks
pub mod Faults
