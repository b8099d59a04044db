pub mod Guards
pub mod Parts
pub mod States
pub mod Counts
pub mod Judged
pub mod Examples
