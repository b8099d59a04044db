pub mod Passing
pub mod WhenLaws
pub mod AheadLaws
pub mod WritingLaws
pub mod Worked
