pub mod SweepLaws
pub mod Unique
