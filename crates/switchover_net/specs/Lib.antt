pub mod Net
pub mod Pipes
pub mod Rows
