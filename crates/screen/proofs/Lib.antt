pub mod Entries
pub mod Feeding
pub mod Table
pub mod Leaving
pub mod WorkedCases
pub mod TheBoardsRules
pub mod Ensured
pub mod Surveying
