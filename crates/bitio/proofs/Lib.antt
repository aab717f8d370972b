pub mod Tests
pub mod Values
pub mod CopyTests
pub mod Determined
