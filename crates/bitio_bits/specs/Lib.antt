pub mod Bits
pub mod Floats
pub mod Words
pub mod Masks
