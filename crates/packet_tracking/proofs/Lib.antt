pub mod Numbering
pub mod SequenceRetiring
pub mod Tracking
pub mod Effects
pub mod Kept
