pub mod Laws
pub mod Measure
