pub mod Computing
pub mod Configurations
pub mod Demand
pub mod Blocks
