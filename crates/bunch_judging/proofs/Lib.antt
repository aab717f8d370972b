pub mod Displacing
pub mod Judged
pub mod Ledger
pub mod Meeting
pub mod Memory
pub mod Telling
