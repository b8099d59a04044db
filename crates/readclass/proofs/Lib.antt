pub mod Going
pub mod Making
