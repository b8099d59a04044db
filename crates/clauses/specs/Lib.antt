pub mod Ahead
pub mod Bodies
