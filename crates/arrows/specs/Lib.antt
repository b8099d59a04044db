pub mod Sorting
pub mod Levels
pub mod Unique
