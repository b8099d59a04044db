pub mod StatementRecords
pub mod StatementReaders
pub mod PartChecks
pub mod Clauses
pub mod BodyRules
