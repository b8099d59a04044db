pub mod PartLaws
pub mod StatementLaws
pub mod LookingLaws
pub mod PuttingLaws
pub mod WritingLaws
pub mod Worked
