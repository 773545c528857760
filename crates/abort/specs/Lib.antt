pub mod TheDisconnection
pub mod Code
pub mod TheDisconnectionsRules
pub mod WorkedCases
