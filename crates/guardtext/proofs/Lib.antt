pub mod GuardTextLaws
