pub mod Turns
pub mod Fitting
pub mod StateLaws
pub mod ActionLaws
pub mod Writes
