pub mod TallyLaws
pub mod GuardTallies
pub mod PartTallies
pub mod ClassTallies
pub mod SetLaws
pub mod AnswerLaws
