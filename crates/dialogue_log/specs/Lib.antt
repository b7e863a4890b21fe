pub mod Bring
pub mod Enter
pub mod Entry
