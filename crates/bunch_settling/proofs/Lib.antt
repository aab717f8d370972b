pub mod Numbers
pub mod Edits
pub mod Giving
pub mod Places
pub mod Growing
pub mod Settles
pub mod Judging
