pub mod Types
pub mod Continuing
