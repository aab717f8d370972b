pub mod Memory
pub mod Sound
pub mod Refusals
pub mod State
pub mod Steps
pub mod Calls
