pub mod LevelLaws
pub mod SortingLaws
pub mod Steps
pub mod Unique
