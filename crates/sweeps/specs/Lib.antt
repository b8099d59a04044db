pub mod Sweeps
pub mod Unique
