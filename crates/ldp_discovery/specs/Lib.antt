pub mod Adjacencies
pub mod Hellos
pub mod Histories
pub mod Live
