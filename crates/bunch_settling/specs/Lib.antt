pub mod Settling
pub mod Giving
pub mod Fragments
