pub mod Packet
pub mod Memory
pub mod State
pub mod Answers
pub mod Turns
