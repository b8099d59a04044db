pub mod LaneLaws
pub mod MaskLaws
pub mod CountingLaws
pub mod Unique
