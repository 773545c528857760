pub mod Some
pub mod Accesses
pub mod Tables
pub mod Screens
pub mod Calls
pub mod Showing
pub mod Agreement
pub mod WorkedCases
