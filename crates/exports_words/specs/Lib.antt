pub mod Walks
pub mod Words
