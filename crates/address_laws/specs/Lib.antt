pub mod Sites
pub mod Points
pub mod Stretch
pub mod Known
pub mod Laws
