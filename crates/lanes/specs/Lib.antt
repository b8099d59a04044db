pub mod Lanes
pub mod Masks
pub mod Counting
pub mod Unique
