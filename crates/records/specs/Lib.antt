pub mod Bytes
pub mod GuardRecords
pub mod Patterns
pub mod Records
pub mod Ends
pub mod Unique
