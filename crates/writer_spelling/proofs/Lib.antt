pub mod Lists
pub mod Spelling
pub mod Packing
pub mod Reading
pub mod Numbers
pub mod Headers
pub mod Allowed
