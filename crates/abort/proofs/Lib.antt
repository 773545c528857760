pub mod Requests
pub mod Answers
pub mod WorkedCases
pub mod Laid
pub mod TheDisconnectionsRules
pub mod Ensured
