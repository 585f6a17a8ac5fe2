pub mod Going
pub mod Made
