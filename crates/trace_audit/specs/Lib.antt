pub mod Arrivals
pub mod Audited
pub mod Heard
pub mod Judged
pub mod Laws
pub mod Yes
