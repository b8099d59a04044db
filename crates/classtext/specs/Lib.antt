pub mod ClassText
