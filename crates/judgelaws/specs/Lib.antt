pub mod TheJudgesRules
pub mod WorkedCases
