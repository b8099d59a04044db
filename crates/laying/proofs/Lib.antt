pub mod LayingLaws
pub mod SheetParts
