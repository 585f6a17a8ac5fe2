pub mod Laws
pub mod Sound
