pub mod Pastes
pub mod Payloads
pub mod Overlaps
pub mod Packed
pub mod Arena
pub mod Blocks
