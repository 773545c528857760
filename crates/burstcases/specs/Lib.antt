pub mod WorkedCases
pub mod NotInAnyOrder
