pub mod Edits
pub mod Ascending
pub mod Searches
pub mod Columns
pub mod Puts
pub mod Join
pub mod Held
pub mod Kept
