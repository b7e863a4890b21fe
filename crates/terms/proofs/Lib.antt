pub mod Buffers
pub mod Decodes
pub mod Questions
