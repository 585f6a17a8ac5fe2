pub mod Counted
pub mod Named
pub mod Read
pub mod Report
pub mod Rows
pub mod SentWords
