pub mod Parts
pub mod Keys
pub mod Runs
pub mod Bad
pub mod Choices
pub mod Reading
pub mod Texts
pub mod Extension
