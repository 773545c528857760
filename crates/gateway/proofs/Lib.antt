pub mod Calls
pub mod Reading
pub mod Writing
pub mod Sizes
pub mod WorkedCases
