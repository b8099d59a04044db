pub mod PlanLaws
pub mod WordLaws
pub mod Truths
pub mod Unique
