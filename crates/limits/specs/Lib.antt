pub mod Shallow
pub mod Counts
