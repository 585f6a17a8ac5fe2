pub mod Change
pub mod Domain
pub mod Forwarding
pub mod Views
