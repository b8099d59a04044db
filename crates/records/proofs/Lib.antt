pub mod Computing
pub mod Bytes
pub mod GuardLaws
pub mod Unique
