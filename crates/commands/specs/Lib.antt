pub mod Handling
pub mod Commands
