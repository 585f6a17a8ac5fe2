pub mod Lent
pub mod Line
pub mod Words
