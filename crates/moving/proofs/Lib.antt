pub mod Built
pub mod Plain
pub mod Copies
pub mod Whole
pub mod ThereAndBack
pub mod Loops
pub mod Steps
pub mod Ensured
