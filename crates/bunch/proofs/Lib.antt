pub mod Determined
pub mod Counting
pub mod Unfinished
pub mod Listing
pub mod DrainCalls
pub mod Emptying
