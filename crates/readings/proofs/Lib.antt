pub mod Examples
pub mod RowLaws
pub mod ReadLaws
pub mod WaysOut
pub mod ComputedLaws
