pub mod Changes
pub mod Ends
pub mod Kept
pub mod Marks
pub mod Names
pub mod Order
pub mod Owned
