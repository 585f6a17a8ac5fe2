pub mod Acts
pub mod Deeds
pub mod Lines
pub mod Lists
pub mod Script
