pub mod InC
pub mod NoSecondAnswer
