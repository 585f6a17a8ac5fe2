pub mod Calm
pub mod EdgePairs
