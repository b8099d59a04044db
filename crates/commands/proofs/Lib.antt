pub mod Errors
pub mod ClauseLaws
pub mod HandleLaws
pub mod HandlingLaws
pub mod BehindLaws
