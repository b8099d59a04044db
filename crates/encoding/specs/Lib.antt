pub mod Records
pub mod Encoding
pub mod Limits
pub mod Numbers
pub mod Within
pub mod Encoded
