pub mod Header
pub mod Entries
pub mod Walk
pub mod Faults
pub mod Grammar
pub mod Wording
