pub mod Trees
pub mod Back
