pub mod Floats
pub mod Seven
