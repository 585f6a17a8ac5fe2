pub mod AtWork
pub mod Event
pub mod Heard
pub mod Hearing
pub mod Peering
pub mod PwMessage
pub mod Wish
