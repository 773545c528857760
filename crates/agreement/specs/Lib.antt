pub mod TheBoardAgrees
pub mod WorkedCases
