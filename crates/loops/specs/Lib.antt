pub mod Cells
pub mod Chase
pub mod LoopQuestion
pub mod Unique
