pub mod TableLaws
pub mod RecordLaws
pub mod ListLaws
