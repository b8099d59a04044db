pub mod Plans
pub mod Words
pub mod Unique
