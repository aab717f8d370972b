pub mod Opens
pub mod Determined
