pub mod Named
pub mod Pile
