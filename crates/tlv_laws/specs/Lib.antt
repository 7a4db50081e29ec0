pub mod Headers
pub mod Fills
pub mod Forms
pub mod Worked
