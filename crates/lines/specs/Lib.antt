pub mod Frame
pub mod Line
pub mod State
pub mod Figures
pub mod Opened
