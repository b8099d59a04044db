pub mod Configurations
pub mod Cells
pub mod LoopAnswer
pub mod Blocks
pub mod Demand
