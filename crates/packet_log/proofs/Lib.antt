pub mod Entries
pub mod Steps
pub mod Example
pub mod Parts
pub mod RoundTrip
