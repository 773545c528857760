pub mod NoSecondAnswer
