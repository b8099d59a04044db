pub mod Computing
pub mod CheckLaws
pub mod Every
pub mod ReaderLaws
pub mod Parts
pub mod PartLaws
pub mod StatementLaws
pub mod ReadLaws
