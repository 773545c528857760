pub mod Firsts
pub mod Reached
pub mod Steps
pub mod Isolated
pub mod Before
