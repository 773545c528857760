pub mod Lists
pub mod Choice
pub mod Texts
pub mod Words
pub mod Pieces
