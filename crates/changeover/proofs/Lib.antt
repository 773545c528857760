pub mod Reading
pub mod Deciding
pub mod Pairs
pub mod Calls
pub mod TheChangeOver
