pub mod Phasing
pub mod Phases
pub mod Unique
