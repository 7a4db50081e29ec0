pub mod Integer
pub mod Laws
pub mod Worked
