pub mod Appending
pub mod Decimals
pub mod FieldLaws
pub mod HexLaws
pub mod Unique
