pub mod Command
pub mod Hex
pub mod Line
pub mod Tally
