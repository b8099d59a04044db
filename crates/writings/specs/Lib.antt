pub mod Layout
pub mod Missing
pub mod Writings
