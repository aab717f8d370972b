pub mod Ledger
pub mod Runs
pub mod Isolation
pub mod Chains
