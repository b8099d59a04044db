pub mod Turns
pub mod Trees
pub mod Sized
