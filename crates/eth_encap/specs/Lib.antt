pub mod Fault
pub mod Packet
