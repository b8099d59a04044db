pub mod Assembling
