pub mod Computing
pub mod ChildListLaws
pub mod CrewLaws
pub mod ListLaws
pub mod Unique
