pub mod Computing
pub mod Examples
pub mod NameLaws
pub mod Spoken
pub mod NumbersRight
pub mod TableLaws
pub mod Rows
