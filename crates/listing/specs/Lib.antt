pub mod Calls
pub mod Input
pub mod Outcomes
pub mod Listing
