pub mod Moving
pub mod Copying
pub mod ThereAndBack
