pub mod Header
pub mod Word
