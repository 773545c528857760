pub mod TheTable
pub mod Soundness
pub mod WorkedCases
pub mod Answers
pub mod Columns
