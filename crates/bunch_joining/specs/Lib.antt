pub mod Added
pub mod Meetings
pub mod Taken
