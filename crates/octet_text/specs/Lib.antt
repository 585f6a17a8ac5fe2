pub mod Cut
pub mod Hex
