pub mod Codes
pub mod Readings
