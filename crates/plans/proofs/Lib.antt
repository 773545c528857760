pub mod Search
pub mod Found
pub mod Entries
pub mod Stay
pub mod Verdicts
