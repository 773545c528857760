pub mod TheAccessGoesOn
pub mod WorkedCases
