pub mod Laws
pub mod OnRow
pub mod Explained
