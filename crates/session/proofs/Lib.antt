pub mod Digits
pub mod Lines
pub mod Forms
pub mod Runnings
