pub mod Events
pub mod Hex
pub mod Places
pub mod Planned
pub mod Reading
pub mod Words
