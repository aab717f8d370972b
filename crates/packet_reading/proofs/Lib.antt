pub mod Reading
pub mod Turning
pub mod Finishing
pub mod Lasting
pub mod Exits
