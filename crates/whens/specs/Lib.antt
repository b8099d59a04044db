pub mod Ahead
pub mod Whens
pub mod Naming
