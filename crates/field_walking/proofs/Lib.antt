pub mod Handed
pub mod Records
pub mod Moves
pub mod Going
pub mod Bounds
