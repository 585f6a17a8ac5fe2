pub mod Addresses
pub mod Index
pub mod Laws
pub mod Removal
pub mod Stored
