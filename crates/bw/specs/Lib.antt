pub mod Packed
pub mod PackedReading
