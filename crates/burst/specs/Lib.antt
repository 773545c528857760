pub mod TheBurst
pub mod GoingOn
pub mod Code
