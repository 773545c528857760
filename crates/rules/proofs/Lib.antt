pub mod WorkedCases
pub mod Labels
