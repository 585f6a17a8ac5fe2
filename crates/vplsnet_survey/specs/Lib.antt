pub mod Answers
pub mod Asked
pub mod Base
pub mod Ended
pub mod Promises
