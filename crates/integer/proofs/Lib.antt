pub mod Fills
pub mod Widths
pub mod Halves
pub mod Numbers
pub mod Worked
