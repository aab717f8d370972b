pub mod Bits
pub mod Header
pub mod Words
