pub mod Pushing
pub mod Appending
pub mod Calls
pub mod OneBit
pub mod Puts
pub mod Bunches
pub mod Accepted
pub mod Determined
