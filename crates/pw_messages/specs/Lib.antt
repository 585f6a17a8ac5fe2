pub mod Content
pub mod LinkAnswers
pub mod Sender
