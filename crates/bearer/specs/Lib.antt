pub mod Meaning
pub mod Side
