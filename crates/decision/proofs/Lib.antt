pub mod Apart
pub mod Numbers
pub mod Answered
