pub mod Calm
pub mod EventEntries
pub mod Laws
pub mod Once
pub mod Seen
pub mod Verdict
pub mod Windows
