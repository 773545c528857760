pub mod TheSameAnswer
pub mod Code
pub mod WorkedCases
