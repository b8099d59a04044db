pub mod Recognised
pub mod Watching
