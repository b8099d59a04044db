pub mod Watches
pub mod Walks
pub mod Unique
