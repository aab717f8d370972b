pub mod Filled
pub mod Gives
pub mod Kept
pub mod Determined
