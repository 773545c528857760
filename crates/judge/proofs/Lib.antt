pub mod Cases
pub mod Holding
