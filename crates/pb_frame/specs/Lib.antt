pub mod Choices
pub mod Frames
pub mod Handed
