pub mod Accesses
pub mod Bits
pub mod Forms
pub mod Line
pub mod Tested
