pub mod AskRead
