pub mod TheGateway
pub mod Code
pub mod WorkedCases
