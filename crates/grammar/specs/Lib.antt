pub mod Grammar
pub mod Words
pub mod Reading
pub mod Machine
pub mod Kinds
