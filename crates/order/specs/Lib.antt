pub mod ChecksInOrder
pub mod Demand2
pub mod Demand3
pub mod NoSecondAnswer
pub mod OpenedFirst
pub mod OpenedAgain
pub mod SettingUp
