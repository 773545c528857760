pub mod TheBoard
pub mod Code
pub mod TheBoardsRules
pub mod WorkedCases
