pub mod Choices
pub mod Laws
pub mod Script
pub mod Shapes
pub mod Told
pub mod Words
