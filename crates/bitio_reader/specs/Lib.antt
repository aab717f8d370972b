pub mod Readers
pub mod Openings
