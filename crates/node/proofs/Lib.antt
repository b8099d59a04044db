pub mod ValueLaws
pub mod Agree
pub mod ProbeLaws
pub mod Unique
