pub mod Code
pub mod Opening
