pub mod Cases
pub mod Relations
pub mod Surveys
pub mod Text
