pub mod Carries
pub mod Frames
