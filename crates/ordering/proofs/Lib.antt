pub mod AtomLaws
pub mod Operands
pub mod Whole
pub mod Worked
pub mod MarkLaws
