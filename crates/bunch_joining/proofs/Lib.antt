pub mod Joining
pub mod There
pub mod Absent
pub mod Meetings
pub mod Handing
