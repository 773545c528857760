pub mod BurstsRules
pub mod NoSecondAnswer
pub mod AnyOrder
pub mod ManyCalls
