pub mod SendLaws
pub mod RunLaws
pub mod ActionLaws
pub mod Unique
