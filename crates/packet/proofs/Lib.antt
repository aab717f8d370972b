pub mod Soundness
pub mod Calls
pub mod Determined
