pub mod SetUp
pub mod Parts
