pub mod Going
pub mod Simulated
