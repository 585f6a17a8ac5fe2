pub mod Changed
pub mod Receiver
pub mod Heard
pub mod Lists
pub mod Speaking
