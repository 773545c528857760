pub mod TheReport
pub mod Rates
pub mod Code
pub mod TheYear
pub mod WorkedCases
