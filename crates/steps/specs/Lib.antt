pub mod Turns
pub mod Going
pub mod Opening
