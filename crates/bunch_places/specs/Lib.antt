pub mod Bytes
pub mod Packed
