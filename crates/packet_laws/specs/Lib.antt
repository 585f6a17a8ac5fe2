pub mod Apart
pub mod Carried
pub mod Channel
pub mod Echoed
pub mod Laws
