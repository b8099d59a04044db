pub mod ReaderLaws
pub mod ClauseLaws
