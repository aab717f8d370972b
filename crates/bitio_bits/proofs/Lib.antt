pub mod Numbers
pub mod Loads
pub mod Floats
pub mod Signed
pub mod Masks
