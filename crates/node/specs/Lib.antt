pub mod Sets
pub mod Values
pub mod Probing
pub mod Unique
