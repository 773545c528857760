pub mod Small
pub mod NoSecondAnswer
pub mod Ensured
pub mod EnsuredOfTheBoard
