pub mod Chars
pub mod Words
pub mod Numbers
pub mod Lines
pub mod Wording
pub mod Faults
pub mod Hex
