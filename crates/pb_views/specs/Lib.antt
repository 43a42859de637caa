pub mod Seats
pub mod Hulls
pub mod Layouts
pub mod Lines
pub mod Windows
