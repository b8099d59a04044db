pub mod Contents
pub mod Rules
pub mod Reading
pub mod Verdict
pub mod Asked
pub mod Samples
