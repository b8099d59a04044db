pub mod FieldLaws
pub mod PartLaws
pub mod GivenLaws
pub mod HeadLaws
pub mod TurnLaws
pub mod LoopLaws
pub mod RightLaws
