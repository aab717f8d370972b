pub mod Decimal
pub mod Texts
pub mod Puts
pub mod Lines
pub mod Halves
