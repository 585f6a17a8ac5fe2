pub mod Lines
pub mod Planned
