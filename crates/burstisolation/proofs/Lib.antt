pub mod Flat
pub mod Views
pub mod Bursts
pub mod Isolated
