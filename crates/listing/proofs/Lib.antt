pub mod Ending
pub mod Known
pub mod Going
pub mod Example
pub mod Writes
