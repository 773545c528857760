pub mod Boundaries
pub mod Refusals
pub mod Steps
pub mod Turns
pub mod Places
pub mod Loop
