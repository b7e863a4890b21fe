pub mod Hexes
pub mod Laws
