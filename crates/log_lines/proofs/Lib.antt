pub mod Texts
pub mod Digits
pub mod Printed
pub mod Values
pub mod Halves
pub mod Example
