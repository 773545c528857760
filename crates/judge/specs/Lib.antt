pub mod TheJudge
pub mod Code
