pub mod Held
pub mod Fates
pub mod Headers
pub mod Messages
pub mod Results
pub mod Effects
pub mod Standings
pub mod Ledger
