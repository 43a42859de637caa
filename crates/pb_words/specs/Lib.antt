pub mod Files
pub mod Line
pub mod Options
pub mod Ranges
pub mod Reading
pub mod Values
