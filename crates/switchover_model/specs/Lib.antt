pub mod After
pub mod Laws
pub mod Network
pub mod Planned
pub mod Text
