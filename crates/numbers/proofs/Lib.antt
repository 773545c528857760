pub mod Cuts
pub mod Small
