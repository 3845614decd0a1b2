pub mod Word
pub mod WordReader
pub mod Request
pub mod RequestReader
pub mod Reply
