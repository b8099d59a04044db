pub mod Counting
pub mod Sized
