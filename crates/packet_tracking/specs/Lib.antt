pub mod Sequences
pub mod SequenceColumns
pub mod Fits
pub mod Partials
pub mod Verdicts
pub mod PartialColumns
