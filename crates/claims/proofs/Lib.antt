pub mod DeskChecks
pub mod Rows
pub mod Marks
pub mod Keeping
pub mod Steps
pub mod OneBunch
pub mod RoundTrip
pub mod Example
