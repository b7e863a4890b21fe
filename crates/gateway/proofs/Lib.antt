pub mod Decimals
pub mod Forms
