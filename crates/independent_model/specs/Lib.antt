pub mod Calls
pub mod Hear
pub mod State
pub mod Stops
pub mod Tell
pub mod Wires
pub mod Work
