pub mod BodyText
