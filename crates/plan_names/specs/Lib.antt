pub mod Decimal
pub mod Names
pub mod Planned
