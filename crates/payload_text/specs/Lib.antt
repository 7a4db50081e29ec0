pub mod Notation
