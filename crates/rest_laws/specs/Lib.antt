pub mod Delivered
pub mod Layers
pub mod Levels
pub mod Rest
pub mod Rises
pub mod Weight
