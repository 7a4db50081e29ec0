pub mod Printed
pub mod Listing
pub mod Answers
pub mod Runs
pub mod Intake
