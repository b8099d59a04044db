pub mod Fields
pub mod Heads
pub mod Reads
