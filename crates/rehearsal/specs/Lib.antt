pub mod Commands
pub mod Draws
pub mod Rows
pub mod Scenario
