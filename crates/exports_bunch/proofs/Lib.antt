pub mod Told
pub mod Draining
