pub mod NameLists
pub mod Naming
pub mod Known
