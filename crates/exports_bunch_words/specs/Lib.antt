pub mod Handed
pub mod Fragments
