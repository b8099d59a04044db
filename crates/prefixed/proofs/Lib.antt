pub mod InsertLaws
pub mod WalkLaws
pub mod Underway
pub mod Unique
