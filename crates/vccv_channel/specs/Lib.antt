pub mod Channel
pub mod Checksum
pub mod Echo
pub mod Fault
pub mod LabelStack
pub mod Pick
pub mod Reading
