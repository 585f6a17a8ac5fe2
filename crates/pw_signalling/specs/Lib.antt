pub mod AnyEnd
pub mod Down
pub mod End
pub mod Laws
pub mod Rows
