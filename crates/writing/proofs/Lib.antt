pub mod WritingLaws
