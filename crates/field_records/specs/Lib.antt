pub mod Records
pub mod Walks
pub mod Fits
