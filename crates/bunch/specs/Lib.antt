pub mod Opening
pub mod Draining
pub mod Shown
