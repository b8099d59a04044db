pub mod Readings
pub mod Reads
pub mod Promise
pub mod Computed
