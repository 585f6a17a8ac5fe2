pub mod Moves
pub mod Clearing
pub mod Healing
pub mod Laws
