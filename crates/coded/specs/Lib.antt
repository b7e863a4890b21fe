pub mod Coded
pub mod Piles
pub mod Strings
