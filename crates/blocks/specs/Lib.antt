pub mod ClauseTables
pub mod Search
pub mod Unique
