pub mod Answers
pub mod Fields
pub mod FirstFault
pub mod Laws
pub mod Numbers
pub mod Records
pub mod Written
