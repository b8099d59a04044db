pub mod ClauseLaws
pub mod BlockLaws
pub mod SearchLaws
pub mod Unique
