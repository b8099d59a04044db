pub mod Inserting
pub mod Walking
pub mod Unique
