pub mod Errors
pub mod TurnLaws
pub mod WalkLaws
pub mod PhasingLaws
pub mod Unique
