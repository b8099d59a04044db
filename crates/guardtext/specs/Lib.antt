pub mod GuardTexts
