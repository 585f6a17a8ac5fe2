pub mod FaultList
pub mod Ground
pub mod Met
pub mod Reach
pub mod Rows
pub mod Words
