pub mod Deciding
pub mod Calls
pub mod WorkedCases
