pub mod Asking
pub mod Pairs
pub mod Printing
pub mod Examples
