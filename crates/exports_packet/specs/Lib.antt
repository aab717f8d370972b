pub mod Packets
pub mod Parts
