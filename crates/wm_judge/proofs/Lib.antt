pub mod NoSecondAnswer
pub mod Ensured
