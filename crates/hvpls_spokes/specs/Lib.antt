pub mod Flood
pub mod Laws
pub mod Port
pub mod PortSet
pub mod Role
pub mod Search
