pub mod Opening
pub mod Drained
