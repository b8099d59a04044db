pub mod AskWrite
