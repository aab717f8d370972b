pub mod Gains
pub mod Moving
pub mod Telling
