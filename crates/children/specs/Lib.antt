pub mod ChildList
pub mod NameSets
pub mod Lists
pub mod Unique
